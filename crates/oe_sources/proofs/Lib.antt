pub mod NameFacts
pub mod SourceFacts
pub mod TextFacts
