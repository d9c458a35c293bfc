-- What the workspace holds while its rows are built, what a question answers, and what a job begins with.
pub mod Cells
pub mod Tree
pub mod Builds
pub mod Falls
pub mod Levels
pub mod Laid
pub mod Beginning
