pub mod Counting
pub mod Judging
pub mod Summing
