pub mod Shapes
pub mod Requested
pub mod Requests
pub mod Given
pub mod Shares
pub mod Inclusions
pub mod Kept
