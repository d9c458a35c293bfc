-- Laws of the verdicts, the answers and the promises.
pub mod Verdicts
pub mod Entering
pub mod Refused
pub mod Answers
pub mod Counts
pub mod Reports
pub mod Fits
pub mod Promises
