-- What each step of a worker changes, and when it may be taken.
pub mod Apply
pub mod Finish
pub mod Followers
pub mod Jobs
pub mod Nack
pub mod Phases
pub mod Places
pub mod Rows
pub mod Shown
pub mod Snapshots
pub mod Steps
pub mod Turns
