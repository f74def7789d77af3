-- For the crates above: what calls make of the links.
mod ByNumberFacts
mod CallFacts
mod ChainFacts
mod ChainedFacts
pub mod ChainedLinkFacts
pub mod ChainWalkFacts
pub mod LeadFacts
pub mod LinkFacts
mod MomentFacts
mod NumberFacts
pub mod OwnerFacts
mod PlaceFacts
mod SendFacts
mod ShelfPieceFacts
mod SpreadFacts
pub mod WalkFacts
