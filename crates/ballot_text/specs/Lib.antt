pub mod Texts
pub mod Readings
pub mod Openings
pub mod Sound
pub mod Sources
pub mod Fields
