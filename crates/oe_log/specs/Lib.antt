-- What the clauses of this crate cite.
pub mod Records
pub mod Log
pub mod Strings
pub mod Kept
pub mod Stands
pub mod Laws
pub mod Moments
pub mod Ticks
