-- Laws of a set's bytes that the proofs of the functions lean on.
pub mod Records
pub mod Padding
pub mod Judged
pub mod Gathered
pub mod Keeping
pub mod Files
pub mod Determined
