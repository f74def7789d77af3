-- What the clauses of this crate cite.
pub mod Views
pub mod Calls
pub mod Slots
