pub mod Members
pub mod Owned
pub mod Lines
pub mod Segments
pub mod Faults
pub mod Laws
pub mod Marks
pub mod Settling
