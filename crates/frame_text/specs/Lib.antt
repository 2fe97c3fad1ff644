pub mod Frames
pub mod Front
pub mod Hello
pub mod Reading
pub mod Codec
pub mod Spelling
pub mod Rules
