pub mod Keeping
pub mod Reading
pub mod Standing
pub mod Answering
pub mod After
pub mod Passing
