pub mod Bytes
pub mod Written
pub mod Reading
pub mod Json
pub mod Forms
