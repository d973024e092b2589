pub mod Compared
pub mod Escapes
pub mod Lines
pub mod Tallies
