-- Laws of suffixes, far numbers and verdicts that the proofs of the functions lean on, and the two theorems of skip
-- tables.
pub mod Keywords
pub mod Places
pub mod Buffers
pub mod Spelling
pub mod Lowering
pub mod FarTable
pub mod Written
pub mod Compared
pub mod Rowwise
pub mod Bytewise
pub mod Tested
pub mod Outcomes
pub mod Accepts
pub mod Made
