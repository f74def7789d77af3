pub mod LiveFacts
