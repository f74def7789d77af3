-- What this crate's proofs rest on.
mod LineFacts
pub mod LocalFacts
mod PaymentMoves
mod NewOrderMoves
mod DeliveryMoves
pub mod KeptMoves
pub mod PopulationMoves
