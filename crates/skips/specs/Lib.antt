-- What the contracts of this crate say beyond `rules`: records of one size in a buffer, suffixes as parts of keywords,
-- the far table as a value, what the tests of a table ask of a record.
pub mod Records
pub mod Suffixes
pub mod Fars
pub mod Judging
