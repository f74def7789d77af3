-- What the clauses of this crate cite.
pub mod Program
pub mod Looks
pub mod Stages
