pub mod Codes
pub mod Producer
pub mod Consumer
pub mod Stands
