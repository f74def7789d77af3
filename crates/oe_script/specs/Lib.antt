-- What the clauses of this crate cite.
pub mod Script
pub mod Hearing
pub mod Outcome
pub mod Session
