pub mod Causes
pub mod Kinds
pub mod Sums
pub mod Sound
