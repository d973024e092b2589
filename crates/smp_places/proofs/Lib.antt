pub mod Roots
pub mod Summing
pub mod Orders
