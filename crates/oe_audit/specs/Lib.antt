-- What the clauses of this crate cite.
pub mod Verdict
pub mod Tests
pub mod Walks
pub mod Payments
pub mod Ledgers
