pub mod Grouping
pub mod Kept
pub mod Listed
pub mod OneKey
pub mod Passing
pub mod Places
pub mod Released
pub mod Rooms
