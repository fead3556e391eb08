pub mod Asks
pub mod Good
pub mod Reads
pub mod Admins
pub mod Policies
pub mod Nodes
