pub mod Given
pub mod Serve
pub mod Words
pub mod Outcome
pub mod Running
