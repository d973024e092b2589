pub mod Refused
pub mod Rows
pub mod Examples
pub mod Asked
