-- Laws of a backward scan under way, which the proofs of the functions lean on.
pub mod Closings
pub mod Reached
pub mod Visits
pub mod Outcomes
