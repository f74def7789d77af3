-- What the clauses of this crate cite.
pub mod Columns
pub mod Differences
pub mod Histories
pub mod Texts
pub mod Walks
pub mod Tables
pub mod Runs
pub mod Laws
pub mod Counts
pub mod Often
pub mod Names
pub mod Forms
pub mod Faults
