pub mod ColumnFacts
pub mod DigitFacts
pub mod StampFacts
