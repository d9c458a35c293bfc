-- What a scan finds and asks, and what a reader may ask of it.
pub mod Hits
pub mod Questions
pub mod Audit
