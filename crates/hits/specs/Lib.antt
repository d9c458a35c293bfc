-- What a scan has counted and listed.
pub mod Tallies
