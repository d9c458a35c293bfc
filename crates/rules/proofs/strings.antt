-- Laws of lists and strings.
pub mod Lists
pub mod Strings
pub mod Parts
pub mod Orders
pub mod Searched
