pub mod Words
pub mod Procedures
pub mod Keys
pub mod Values
pub mod Faults
pub mod Designs
pub mod Bounds
