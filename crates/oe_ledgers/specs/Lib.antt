-- What the clauses of this crate cite.
pub mod Columns
pub mod ColumnLaws
pub mod Keys
pub mod Sums
pub mod SumLaws
pub mod Keeping
pub mod Settling
pub mod Figures
