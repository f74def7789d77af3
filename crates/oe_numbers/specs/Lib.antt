-- What the clauses of this crate cite.
pub mod Words
pub mod Kinds
