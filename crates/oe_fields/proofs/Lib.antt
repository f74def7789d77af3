pub mod AmountFacts
pub mod DigitFacts
pub mod FrontFacts
pub mod PartFacts
