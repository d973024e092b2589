-- The laws of the definitions. They stand here, and not in proofs/, where a ghost member of the crate cites them.
pub mod Rows
pub mod Reads
pub mod Firsts
pub mod Turns
pub mod StageLenses
pub mod Staged
pub mod Lenses
pub mod Parts
pub mod Means
pub mod Numbers
pub mod Steps
