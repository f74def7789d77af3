-- What the clauses of this crate cite.
pub mod Reply
pub mod Level
pub mod Few
