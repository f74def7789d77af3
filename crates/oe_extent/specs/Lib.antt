-- What the clauses of this crate cite.
pub mod Images
pub mod Laws
pub mod Strings
pub mod Extents
pub mod Free
pub mod Ring
pub mod Kept
