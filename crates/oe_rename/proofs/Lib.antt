pub mod StageFacts
