-- What the code keeps on the way. No public clause cites it.
pub mod Readers
pub mod Ids
