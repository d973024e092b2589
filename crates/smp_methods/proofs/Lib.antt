pub mod Starts
pub mod Firsts
pub mod Moved
pub mod Columns
pub mod Wholes
pub mod Ways
pub mod OneStratum
