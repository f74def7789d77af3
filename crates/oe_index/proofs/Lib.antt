-- What this crate's own proofs rest on.
mod FoundFacts
mod ListFacts
mod NameFacts
mod OwnerFacts
