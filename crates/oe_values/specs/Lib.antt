-- What the clauses of this crate cite.
pub mod Front
pub mod Held
pub mod Number
pub mod Reading
pub mod Stamp
pub mod TerminalsLend
pub mod Text
