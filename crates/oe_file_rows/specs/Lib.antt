-- What the clauses of this crate cite.
pub mod Value
pub mod Word
pub mod Line
pub mod Rows
pub mod Dumped
