pub mod Chosen
pub mod Copied
pub mod Whole
