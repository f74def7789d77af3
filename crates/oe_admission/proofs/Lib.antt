pub mod RejectionFacts
pub mod RankFacts
pub mod LiveFacts
