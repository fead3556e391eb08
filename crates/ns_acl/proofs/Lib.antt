pub mod Answering
pub mod Copied
pub mod Counting
pub mod Slotted
pub mod Standing
