pub mod Support
pub mod Method
pub mod Laws
pub mod Kept
