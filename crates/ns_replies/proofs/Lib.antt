pub mod Lines
pub mod Written
pub mod Writing
pub mod Brief
pub mod Summing
pub mod Applying
pub mod Made
pub mod Reading
