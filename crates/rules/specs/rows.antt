-- The rows of a set, and the six numbers of each.
pub mod Rows
