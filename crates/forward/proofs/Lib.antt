-- Laws of a scan under way and of its answer, which the proofs of the functions lean on.
pub mod States
pub mod Endings
pub mod Outcomes
pub mod Determined
