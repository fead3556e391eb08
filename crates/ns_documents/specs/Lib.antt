pub mod Records
pub mod Access
pub mod Nodes
pub mod Members
