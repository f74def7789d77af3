pub mod ConstantFacts
pub mod HeadingFacts
pub mod PrintFacts
pub mod RowFacts
