-- The proofs of this crate.
pub mod ChainFacts
pub mod DrawFacts
pub mod NameFacts
pub mod RangeFacts
pub mod PlanFacts
