-- The proofs of this crate.
pub mod KeepFacts
pub mod StepFacts
