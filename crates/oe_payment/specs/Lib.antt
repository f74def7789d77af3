-- What the clauses of this crate cite.
pub mod Program
pub mod Stages
