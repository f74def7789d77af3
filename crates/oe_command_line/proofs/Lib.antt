pub mod WordFacts
pub mod OptionFacts
