-- What the clauses of this crate cite.
pub mod Places
pub mod Names
pub mod KeyWalk
pub mod KeysLeft
pub mod Newest
pub mod Numbered
