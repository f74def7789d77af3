-- The proofs of this crate.
pub mod PartFacts
mod OtherFacts
mod RowFacts
