pub mod Answering
pub mod Placing
pub mod Whole
pub mod Writing
