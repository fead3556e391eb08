pub mod Runs
pub mod Connections
pub mod Answered
pub mod Taken
