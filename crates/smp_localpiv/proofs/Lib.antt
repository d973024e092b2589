pub mod Coordinates
pub mod Counts
pub mod Starts
pub mod Steps
pub mod Weights
