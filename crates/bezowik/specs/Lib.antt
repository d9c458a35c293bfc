-- The answer as a value, and the promises of the bench group's calls.
pub mod Calls
