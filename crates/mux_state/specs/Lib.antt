pub mod State
pub mod Next
pub mod Tests
pub mod Emitting
pub mod Book
