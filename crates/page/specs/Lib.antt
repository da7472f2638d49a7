pub mod Sinks
pub mod Counting
pub mod Laying
