-- What the clauses of this crate cite.
pub mod Verdicts
pub mod Reports
