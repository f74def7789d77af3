-- What this crate's proofs share.
pub mod FindingFacts
pub mod RegroupFacts
pub mod DeliveryFacts
pub mod AccountFacts
pub mod SizeFacts
