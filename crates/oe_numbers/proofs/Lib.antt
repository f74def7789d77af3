-- The proofs of this crate.
pub mod NumberFacts
pub mod KindFacts
