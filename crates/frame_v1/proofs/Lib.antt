pub mod Names
pub mod FrameTexts
pub mod Payloads
pub mod Steps
