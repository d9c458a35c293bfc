-- The fixed numbers, and the keywords that a set states.
pub mod Limits
pub mod Sets
