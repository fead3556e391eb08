pub mod Telling
pub mod Reading
pub mod Chains
pub mod Runs
