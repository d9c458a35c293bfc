-- Laws of the skips, the tables that hold them, and the backward scan.
pub mod Least
pub mod Searches
pub mod Lowest
pub mod Skips
pub mod Distances
pub mod Windows
pub mod Tables
pub mod Runs
pub mod Ahead
