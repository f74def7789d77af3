-- The laws of the tables for the crates above, and what this crate's own proofs rest on.
pub mod PlaceFacts
pub mod SoundFacts
pub mod KeyWalkFacts
mod ColumnFacts
mod BackFacts
mod ChoiceFacts
mod GroupFacts
mod NewestFacts
mod GivenUpFacts
mod LostFacts
