-- Document 01 as definitions: each folder is a part of the paper, and this is what a reader must believe.
-- What the paper does not say stands apart, in `Beside`.
pub mod strings
pub mod sets
pub mod rows
pub mod scans
pub mod skips
pub mod answers
pub mod Cases
pub mod Beside
