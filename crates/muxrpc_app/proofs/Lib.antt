pub mod Written
pub mod Lines
pub mod Scripts
pub mod Captures
