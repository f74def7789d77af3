-- The proofs of this crate.
mod EndFacts
mod PlanFacts
pub mod PostFacts
pub mod SlotFacts
mod LeftFacts
mod RestoredFacts
mod ErrandFacts
pub mod StationFacts
