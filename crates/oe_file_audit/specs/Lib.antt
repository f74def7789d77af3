-- What the clauses of this crate cite.
pub mod Causes
pub mod Faults
pub mod Reading
pub mod Earlier
pub mod Audits
