-- What the clauses of this crate cite.
pub mod Checks
pub mod Laws
pub mod Orders
