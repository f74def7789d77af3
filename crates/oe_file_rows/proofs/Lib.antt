pub mod DumpFacts
pub mod FieldFacts
pub mod LineFacts
pub mod RowFacts
pub mod StartFacts
pub mod WordFacts
