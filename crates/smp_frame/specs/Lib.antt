pub mod Bounds
pub mod Fields
pub mod Frames
pub mod Layouts
pub mod Faults
pub mod Records
pub mod Sized
pub mod Kept
