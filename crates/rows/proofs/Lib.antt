-- Laws of a workspace that holds rows, which the proofs of the functions lean on.
pub mod Links
pub mod Columns
pub mod Walk
pub mod Appended
pub mod Chain
pub mod Behind
pub mod Written
pub mod Depth
pub mod Spelling
pub mod Building
pub mod Laying
pub mod Begun
pub mod Determined
