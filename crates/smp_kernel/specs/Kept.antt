-- What the code keeps on the way. No public clause cites it.
pub mod Tables
pub mod Steps
pub mod Ratios
pub mod Searched
