pub mod Cases
pub mod Demo
