pub mod Handshake
pub mod Shaking
pub mod Rules
