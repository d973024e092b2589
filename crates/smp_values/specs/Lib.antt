pub mod Values
pub mod Pairs
pub mod Steps
pub mod Starts
pub mod InOrder
pub mod Largest
pub mod Kept
