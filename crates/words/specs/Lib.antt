-- What the numbers of the list say, and how its keywords are read.
pub mod Read
pub mod Items
