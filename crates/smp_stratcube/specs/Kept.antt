-- What the code keeps on the way. No public clause cites it.
pub mod Gates
pub mod Moves
pub mod Fronts
pub mod Lines
pub mod Pairs
pub mod States
pub mod Behind
pub mod Layers
pub mod Computed
pub mod Trees
