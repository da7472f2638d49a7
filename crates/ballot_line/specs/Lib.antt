pub mod Forms
pub mod Tokens
pub mod Rows
pub mod Lines
pub mod Faults
