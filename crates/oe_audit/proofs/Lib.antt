-- What this crate's proofs rest on.
mod SumFacts
mod NumberFacts
pub mod DistrictFacts
mod PopulationFacts
mod StoodFacts
mod WalkFacts
mod PaidFacts
mod DeliveredFacts
pub mod LeadFacts
mod LedgerFacts
mod AgreeFacts
