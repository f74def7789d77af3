-- What the clauses of this crate cite.
pub mod Remainder
pub mod Program
pub mod Stages
pub mod Deliveries
