-- What the clauses of this crate cite.
pub mod Labels
pub mod Texts
pub mod Report
pub mod Json
pub mod Forms
