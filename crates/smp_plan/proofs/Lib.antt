pub mod Designs
pub mod Inputs
pub mod Names
pub mod Steps
