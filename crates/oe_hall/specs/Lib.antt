-- What the clauses of this crate cite.
pub mod Naming
pub mod Counts
pub mod Histories
pub mod Turns
pub mod Seats
pub mod Desks
