-- The laws of tables for the crates above, and what this crate's own proofs rest on.
pub mod TableFacts
mod WalkFacts
pub mod ShelfFacts
mod NearFacts
pub mod ShelvesFacts
mod RangeFacts
mod PassedFacts
mod GivenUpFacts
mod SweepFacts
pub mod TakenOutFacts
mod FrontFacts
