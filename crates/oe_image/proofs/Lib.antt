pub mod MaskFacts
pub mod PartFacts
