-- What the clauses of this crate cite.
pub mod Fault
pub mod Record
pub mod Format
pub mod Lines
pub mod Reading
pub mod Rows
pub mod Twice
pub mod Batches
pub mod Tables
