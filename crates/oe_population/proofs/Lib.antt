-- What this crate's own proofs rest on.
mod FillFacts
mod KeyTests
mod HistoryTests
mod PopulatedFacts
mod TextFacts
