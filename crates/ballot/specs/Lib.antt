pub mod Refusals
pub mod Sets
pub mod Values
pub mod Sources
pub mod LentSound
