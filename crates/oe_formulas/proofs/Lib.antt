-- What this crate's proofs rest on.
mod TextFacts
mod LawFacts
