pub mod Stopping
pub mod Taking
pub mod Greater
pub mod Steady
pub mod Hellos
pub mod Refused
pub mod Parity
