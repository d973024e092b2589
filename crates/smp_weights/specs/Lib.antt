pub mod Arithmetic
pub mod Chosen
pub mod Signs
pub mod Sample
pub mod Totals
pub mod Values
pub mod Rows
pub mod Kept
