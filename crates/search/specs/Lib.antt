pub mod Rules
pub mod EndingValues
pub mod Searches
pub mod Samples
