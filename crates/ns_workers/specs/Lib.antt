pub mod Growing
pub mod Halting
pub mod Keeping
