-- What the clauses of this crate cite.
pub mod Comparing
pub mod Accounts
pub mod Conditions
pub mod Deliveries
pub mod Keys
pub mod Movements
pub mod References
pub mod Schema
pub mod Sizes
