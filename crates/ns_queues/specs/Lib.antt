pub mod After
pub mod Busy
pub mod Ready
pub mod Turns
pub mod Waiting
pub mod Work
