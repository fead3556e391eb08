pub mod Parts
pub mod Nodes
pub mod Asking
pub mod Wanted
pub mod Drawing
pub mod Finding
