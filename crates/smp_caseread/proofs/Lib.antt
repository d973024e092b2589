pub mod Printable
pub mod Standing
pub mod Heads
