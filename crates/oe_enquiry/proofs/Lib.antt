pub mod ListedFacts
pub mod LevelFacts
pub mod ShortFacts
pub mod AnswerFacts
pub mod FewFacts
pub mod RecentFacts
pub mod MarkFacts
pub mod SoldFacts
