pub mod Value
pub mod Normal
pub mod Json
pub mod Reading
