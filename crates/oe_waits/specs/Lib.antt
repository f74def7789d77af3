-- What the clauses of this crate cite.
pub mod Knots
pub mod Waits
pub mod Names
pub mod Reaching
pub mod Texts
