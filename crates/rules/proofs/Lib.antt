-- The laws of the definitions, by subject; the folders are those of specs/.
pub mod strings
pub mod sets
pub mod rows
pub mod scans
pub mod skips
pub mod answers
pub mod Cases
