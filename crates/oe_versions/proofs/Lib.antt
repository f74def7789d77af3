pub mod FoundFacts
pub mod ReadFacts
pub mod LastingFacts
pub mod PassedFacts
pub mod QuietFacts
pub mod LastFacts
pub mod NameFacts
