pub mod Draws
pub mod Faults
