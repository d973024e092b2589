-- What the code keeps on the way. No public clause cites it.
pub mod Ranks
pub mod Regions
pub mod Trees
