-- What the clauses of this crate cite.
pub mod View
pub mod Covered
pub mod Kept
pub mod Opened
pub mod Calls
pub mod Writes
pub mod Programs
pub mod Renames
pub mod Stages
