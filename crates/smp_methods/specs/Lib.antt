pub mod Procedures
pub mod Designs
pub mod Methods
pub mod Starts
pub mod Kept
