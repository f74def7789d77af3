pub mod NameFacts
pub mod GrammarFacts
pub mod OrderFacts
pub mod StampFacts
pub mod WordFacts
pub mod TextFacts
