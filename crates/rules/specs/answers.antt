-- Refusals, answers, and what each job promises.
pub mod Refusals
pub mod Answers
pub mod Promises
