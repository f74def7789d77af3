-- What the clauses of this crate cite.
pub mod Columns
pub mod Then
