-- What this crate's proofs share.
pub mod KeptFacts
