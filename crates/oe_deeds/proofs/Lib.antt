pub mod FileFacts
