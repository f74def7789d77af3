-- What the clauses of this crate cite.
pub mod Endings
pub mod Statuses
pub mod Notes
pub mod Opened
pub mod Folders
pub mod Said
