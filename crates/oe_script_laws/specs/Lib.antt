-- What the clauses of this crate cite.
pub mod Beside
pub mod Commits
pub mod Deeds
pub mod Without
pub mod Laws
pub mod Moments
