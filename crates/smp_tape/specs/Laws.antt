-- The laws of the definitions. They stand here, and not in proofs/, where a ghost member of the crate cites them.
pub mod Tapes
pub mod Sieves
pub mod Keys
