-- What the functions of the crate owe each other. The contract of a call cites none of it.
pub mod Exact
pub mod Stages
