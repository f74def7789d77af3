-- What the clauses of this crate cite.
pub mod Versions
pub mod Lasting
