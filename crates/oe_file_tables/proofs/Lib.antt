pub mod BatchFacts
pub mod HistoryFacts
pub mod ReadFacts
pub mod RecordFacts
pub mod TwiceFacts
