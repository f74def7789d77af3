pub mod BeforeFacts
pub mod CreditFacts
pub mod KeyFacts
pub mod ListFacts
