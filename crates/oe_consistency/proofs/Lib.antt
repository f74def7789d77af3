-- What this crate's proofs rest on.
mod RowSums
mod PaymentMore
mod NewOrderMore
pub mod DeliveryMore
pub mod RenameMore
pub mod KeptMore
pub mod PopulationMore
