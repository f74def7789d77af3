-- What the clauses of this crate cite.
pub mod Loads
pub mod Together
pub mod Flats
pub mod Happens
pub mod Picks
pub mod Scripts
pub mod Turns
pub mod Ends
pub mod Laws
