-- What the clauses of this crate cite.
pub mod Facts
pub mod Keys
pub mod Keeping
pub mod Closing
pub mod Parts
pub mod Found
