-- What the clauses of this crate cite.
pub mod Verdict
pub mod Steps
pub mod Replies
pub mod Asks
