pub mod Opening
pub mod Placing
pub mod Walking
pub mod Taking
