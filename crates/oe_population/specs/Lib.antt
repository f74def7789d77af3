-- What the clauses of this crate cite.
pub mod Printable
pub mod Fill
pub mod Group
