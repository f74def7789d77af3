pub mod CountFacts
pub mod BehindFacts
pub mod MetFacts
pub mod OrderFacts
pub mod FirstFacts
pub mod WaitFacts
pub mod TableFacts
