-- What the clauses of this crate cite.
pub mod Recorded
pub mod Linked
pub mod GoesBack
pub mod Unwinds
pub mod Rewinds
pub mod GivesUp
pub mod Forgetting
pub mod Named
pub mod Identity
pub mod ExactNames
