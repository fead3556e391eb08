pub mod Rights
pub mod Sharing
