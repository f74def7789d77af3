pub mod SlotFacts
mod LastFacts
mod LentFacts
pub mod MoveFacts
pub mod BeginFacts
mod WantFacts
pub mod KeepFacts
pub mod AdvanceFacts
pub mod CloseFacts
pub mod OpenFacts
pub mod AuditFacts
pub mod ReadFacts
pub mod PastFacts
mod SendFacts
pub mod CountFacts
mod AskFacts
