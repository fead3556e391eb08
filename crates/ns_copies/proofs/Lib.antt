pub mod Indexed
pub mod Owned
pub mod Parted
pub mod Slotwise
pub mod Whole
