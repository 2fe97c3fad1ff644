pub mod Nonces
pub mod Told
pub mod Spelled
