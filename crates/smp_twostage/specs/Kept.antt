-- What the code and the proofs keep on the way. No public clause cites it.
pub mod Sides
pub mod Stages
