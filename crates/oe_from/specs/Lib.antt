-- What the clauses of this crate cite.
pub mod Serials
pub mod Scripts
pub mod Scales
pub mod Loads
pub mod Gaps
