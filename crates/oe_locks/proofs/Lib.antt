pub mod EntryFacts
pub mod HeldFacts
pub mod NameFacts
pub mod NotedFacts
pub mod SetFacts
