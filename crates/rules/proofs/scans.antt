-- Laws of the forward scan: its state, its questions and its hits.
pub mod State
pub mod Questions
pub mod Dictionary
pub mod Hits
pub mod Totals
pub mod Nested
pub mod Buffers
pub mod Audited
