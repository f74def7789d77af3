pub mod CoveredFacts
mod FacetFacts
pub mod StageFacts
pub mod EndFacts
pub mod LinkFacts
mod OpenFacts
mod KeptFacts
mod NeededFacts
pub mod LockFacts
pub mod LogFacts
pub mod MakeFacts
pub mod HeldFacts
mod PutFacts
mod FullFacts
pub mod PastFacts
mod WriteFacts
pub mod ReplyFacts
pub mod PartFacts
pub mod RenameFacts
pub mod SafeFacts
mod SendFacts
