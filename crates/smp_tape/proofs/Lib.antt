pub mod FirstLine
pub mod Front
pub mod Four
pub mod Streams
pub mod Moves
pub mod Blocks
pub mod Candidates
pub mod Fairness
