-- What this crate's proofs rest on, for the crates above too.
pub mod KeptFacts
pub mod SumFacts
pub mod WarehousesFigures
pub mod DistrictsFigures
pub mod CustomersFigures
pub mod HistoriesFigures
pub mod NewOrdersFigures
pub mod OrdersFigures
pub mod OrderLinesFigures
pub mod ItemsFigures
pub mod StocksFigures
