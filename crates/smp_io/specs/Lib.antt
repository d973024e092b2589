pub mod Calls
pub mod Counts
pub mod Memory
pub mod Partial
pub mod Sink
pub mod Store
