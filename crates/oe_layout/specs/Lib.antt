-- What the clauses of this crate cite.
pub mod Links
pub mod Kinds
pub mod Records
pub mod RecordFronts
pub mod Laws
pub mod Stored
