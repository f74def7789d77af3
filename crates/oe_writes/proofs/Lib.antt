mod SetFacts
mod UnplacedFacts
pub mod RecordFacts
pub mod OfLayoutFacts
