pub mod BaseFacts
pub mod PlaceFacts
pub mod HomeFacts
pub mod FileFacts
pub mod LoadedFacts
pub mod WholeFacts
