-- What the clauses of this crate cite.
pub mod Ports
pub mod Lines
