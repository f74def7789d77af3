pub mod AnswerFacts
pub mod LineFacts
pub mod HearingFacts
pub mod Reaching
pub mod Ending
pub mod OpenFacts
