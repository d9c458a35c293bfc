-- What the windows of a backward scan have found.
pub mod Windowed
