-- What the clauses of this crate cite.
pub mod Happenings
pub mod Firsts
pub mod Tables
