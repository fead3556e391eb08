pub mod Bearers
pub mod Gathered
pub mod Tokens
