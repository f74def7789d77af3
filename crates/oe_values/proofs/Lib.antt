pub mod BrandFacts
pub mod FrontFacts
pub mod HeldFacts
pub mod StampFacts
pub mod TextFacts
