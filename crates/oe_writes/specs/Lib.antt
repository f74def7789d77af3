-- What the clauses of this crate cite.
pub mod Records
pub mod Made
pub mod Asks
pub mod Kinds
