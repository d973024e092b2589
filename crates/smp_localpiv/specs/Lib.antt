pub mod Coordinates
pub mod Local
pub mod Method
pub mod Laws
pub mod Kept
