pub mod Released
pub mod Shown
