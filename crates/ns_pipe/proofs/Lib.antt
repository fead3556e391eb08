pub mod Holdings
pub mod Uncounted
pub mod Steps
pub mod Requests
pub mod Settled
pub mod Entries
pub mod Texts
mod Outcomes
