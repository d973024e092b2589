-- The laws of the definitions. They stand here, and not in proofs/, where a ghost member of the crate cites them.
pub mod Sums
pub mod Identities
pub mod Answers
pub mod Offers
pub mod Splits
