pub mod Entries
pub mod Pages
pub mod States
pub mod Calls
pub mod Histories
pub mod Laws
pub mod Verdicts
