pub mod NumberFacts
pub mod StageFacts
pub mod TenFacts
