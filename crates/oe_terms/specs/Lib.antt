-- What the clauses of this crate cite.
pub mod Draws
pub mod Columns
pub mod Errands
pub mod Ranges
pub mod Plans
