-- The proofs of this crate.
pub mod Lists
pub mod Steps
pub mod Active
