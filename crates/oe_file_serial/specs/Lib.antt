-- What the clauses of this crate cite.
pub mod InOrder
pub mod Alone
pub mod Files
pub mod BadTexts
pub mod Answers
pub mod Changes
pub mod Verdicts
pub mod Worlds
