-- What the clauses of this crate cite.
pub mod Verbs
pub mod Columns
pub mod Reasons
pub mod Shapes
pub mod Texts
pub mod Laws
