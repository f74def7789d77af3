-- The proofs of this crate.
pub mod TurnFacts
pub mod HistoryFacts
pub mod SeatFacts
pub mod OpenFacts
mod SendFacts
