-- What the clauses of this crate cite.
pub mod Busy
pub mod Commits
pub mod Files
