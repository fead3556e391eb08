pub mod Growing
pub mod Keeping
