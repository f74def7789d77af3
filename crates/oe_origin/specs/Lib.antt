-- What the clauses of this crate cite.
pub mod Lacks
pub mod Walks
pub mod Populations
pub mod Texts
