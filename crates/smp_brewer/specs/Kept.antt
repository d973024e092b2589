-- What the code keeps on the way. No public clause cites it.
pub mod Orders
pub mod Sizes
pub mod States
