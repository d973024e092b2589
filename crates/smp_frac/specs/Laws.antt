-- The laws that a fraction in lowest terms is made of. They stand here, and not in proofs/, since a definition cites them.
pub mod Coprime
pub mod Gcds
pub mod Lowest
