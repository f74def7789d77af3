-- What the clauses of this crate cite.
pub mod Movements
pub mod Kept
