-- What the clauses of this crate cite.
pub mod Answer
pub mod Column
pub mod Dump
pub mod Key
pub mod Refusal
pub mod Reply
pub mod Stamp
