-- For the crates above: what was applied can be undone, and a change that has a cause is refused for it.
pub mod UndoFacts
pub mod PlaceFacts
mod Inverses
mod NameFacts
