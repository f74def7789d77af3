pub mod StepFacts
pub mod StageFacts
