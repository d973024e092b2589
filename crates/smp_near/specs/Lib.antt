pub mod Nearest
pub mod Kept
pub mod Dimensions
