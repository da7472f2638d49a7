pub mod Fine
pub mod Rules
pub mod Dossiers
pub mod Tallies
