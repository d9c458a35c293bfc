-- The answer's bytes, and that the jobs' promises give the calls'.
pub mod Digits
pub mod Telling
pub mod Determined
pub mod Numbers
