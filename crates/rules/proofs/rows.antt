-- Laws of the rows: which strings they are, how many, and their six numbers.
pub mod Rows
pub mod PrefixRows
pub mod Count
pub mod Most
pub mod NewRows
pub mod Children
pub mod Listed
pub mod Keys
pub mod KeyNumbers
