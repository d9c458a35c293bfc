-- Laws of a tally, which the proofs of the functions and of their callers lean on.
pub mod Tallying
pub mod Determined
