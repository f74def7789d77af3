-- What the proofs of this crate rest on.
mod DumpFacts
