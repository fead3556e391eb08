pub mod Queue
pub mod Snapshot
pub mod Owners
pub mod Worker
pub mod Work
pub mod Commit
pub mod Looks
pub mod Parts
