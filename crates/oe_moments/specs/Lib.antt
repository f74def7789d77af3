-- What the clauses of this crate cite.
pub mod Rule
pub mod Pins
