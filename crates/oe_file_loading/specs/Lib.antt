-- What the clauses of this crate cite.
pub mod Base
pub mod Files
pub mod Homes
pub mod Loaded
pub mod Loading
pub mod Placing
pub mod Whole
