pub mod Lends
pub mod Levels
pub mod Over
pub mod Owned
pub mod Queue
pub mod Series
pub mod Slots
pub mod Table
