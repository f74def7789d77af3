-- What this crate's proofs rest on.
pub mod StreamFacts
pub mod CheckFacts
