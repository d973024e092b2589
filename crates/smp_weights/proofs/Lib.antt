pub mod Arithmetic
pub mod Chosen
pub mod Counted
pub mod Four
pub mod Steps
pub mod Values
pub mod Written
