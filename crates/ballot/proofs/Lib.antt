pub mod Finding
pub mod Growing
pub mod GroupLists
pub mod Outside
pub mod Sameness
pub mod Unique
