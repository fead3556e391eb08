pub mod Rows
pub mod Settling
pub mod Work
pub mod Nodes
pub mod Apply
pub mod Admins
pub mod Steps
