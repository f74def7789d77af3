-- The proofs of this crate.
mod LineFacts
mod QueryFacts
mod ToldFacts
mod RingFacts
mod BadFacts
mod ReasonFacts
mod ChangeFacts
mod AloneFacts
mod AloneLaw
mod WorkFacts
mod AnswerFacts
mod VerdictFacts
pub mod SentFacts
