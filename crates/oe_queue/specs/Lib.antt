-- What the clauses of this crate cite.
pub mod Order
pub mod Rule
pub mod Ends
