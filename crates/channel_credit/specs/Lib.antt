pub mod Sound
pub mod Parts
pub mod Answers
