pub mod LackFacts
pub mod SentFacts
pub mod StockFacts
pub mod TerminalFacts
