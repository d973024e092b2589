-- What the code keeps on the way. No public clause cites it.
pub mod Keys
pub mod Seen
pub mod Groups
pub mod Layouts
pub mod Built
