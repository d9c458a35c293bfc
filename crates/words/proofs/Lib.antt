-- Laws of the list of words that the proofs of the functions and of their callers lean on.
pub mod Items
pub mod Compared
pub mod Counted
pub mod Places
pub mod Storing
