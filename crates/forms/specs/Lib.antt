pub mod Languages
pub mod Fronts
pub mod Written
pub mod Texts
pub mod Decoded
