pub mod Masks
pub mod Ends
pub mod Rows
