-- What the clauses of this crate cite.
pub mod Condition
pub mod Refusal
pub mod Reply
