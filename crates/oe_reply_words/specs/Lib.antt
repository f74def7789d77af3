-- What the clauses of this crate cite.
pub mod Parts
pub mod Others
pub mod Rows
pub mod Told
