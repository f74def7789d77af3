-- What the clauses of this crate cite.
pub mod Facts
pub mod FactLaws
