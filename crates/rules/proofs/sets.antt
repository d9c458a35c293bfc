-- Laws of a set that passed its tests.
pub mod Sets
pub mod Bytes
pub mod Once
