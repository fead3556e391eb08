pub mod Blocked
pub mod Groups
pub mod Waking
