-- What this crate's proofs rest on.
pub mod RowFacts
pub mod ClosingFacts
pub mod InitialFacts
pub mod TakingFacts
pub mod FoundFacts
pub mod ApartFacts
