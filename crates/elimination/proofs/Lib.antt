pub mod Tabling
pub mod Fewer
pub mod Picking
pub mod Stepping
