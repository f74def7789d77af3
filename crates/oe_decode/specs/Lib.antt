-- What the clauses of this crate cite.
pub mod Fronts
pub mod ColumnFronts
pub mod Codec
pub mod NumberFacts
pub mod FrontFacts
pub mod ColumnFacts
pub mod KeyFronts
pub mod RowFronts
pub mod BeforeRanges
pub mod BeforeFronts
pub mod Laws
