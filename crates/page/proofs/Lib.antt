pub mod Dividing
pub mod Putting
pub mod Listing
pub mod Lengths
