-- What the clauses of this crate cite.
pub mod Listed
pub mod Numbers
pub mod Own
