pub mod Reached
pub mod Settles
pub mod Stamped
pub mod Committed
pub mod Indexed
pub mod Owners
pub mod Concludes
