-- What the clauses of this crate cite.
pub mod Changes
pub mod Writes
pub mod Applies
pub mod PutBack
pub mod Laws
