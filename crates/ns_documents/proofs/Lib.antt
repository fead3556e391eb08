pub mod Attributes
pub mod Good
