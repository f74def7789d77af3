-- The proofs of this crate.
pub mod Moves
pub mod EndFacts
