pub mod Mapping
pub mod Steps
pub mod Turns
pub mod Parts
pub mod Widths
pub mod Judging
