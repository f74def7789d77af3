-- What the clauses of this crate cite.
pub mod Core
pub mod Works
