-- Lemmas.
pub mod LengthFacts
pub mod LinkFacts
pub mod ShortFacts
pub mod RecordFacts
pub mod FrameFacts
pub mod StoredFacts
