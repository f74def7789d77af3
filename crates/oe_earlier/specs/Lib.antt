-- What the clauses of this crate cite.
pub mod Traces
pub mod TraceLaws
pub mod Keeping
pub mod Changes
