-- The laws of the definitions. They stand here, and not in proofs/, where a ghost member of the crate cites them.
pub mod Lists
pub mod Places
pub mod Numbering
pub mod Staged
pub mod Covered
pub mod Wholes
