-- The largest safe skips, and the backward scan that runs by the numbers of a table.
pub mod Skips
pub mod Runs
