pub mod Keeping
pub mod Ruling
pub mod Tallying
pub mod Asking
pub mod Paging
