-- The proofs of this crate.
mod ColumnFacts
mod DifferenceFacts
mod LawFacts
mod CountFacts
mod HistoryFacts
mod OftenFacts
mod TextFacts
mod RunFacts
mod TableFacts
