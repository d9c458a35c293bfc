-- What a forward scan under way has found.
pub mod Progress
