pub mod Inputs
pub mod Planned
pub mod Plans
pub mod Reads
pub mod Stops
