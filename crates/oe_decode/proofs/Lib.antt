-- Lemmas.
pub mod KeyFacts
pub mod RowFacts
pub mod BeforeFacts
pub mod BeforeRowFacts
