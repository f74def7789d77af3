pub mod ChosenFacts
pub mod ClimbFacts
pub mod LineFacts
pub mod LastOrderFacts
pub mod PassedFacts
