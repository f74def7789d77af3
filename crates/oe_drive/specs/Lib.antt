-- What the clauses of this crate cite.
pub mod Ends
pub mod Errands
pub mod Plans
pub mod Posts
pub mod Room
pub mod Runs
pub mod Stations
