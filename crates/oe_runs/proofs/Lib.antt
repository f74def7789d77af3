pub mod AnswerFacts
pub mod RunFacts
