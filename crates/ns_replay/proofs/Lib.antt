pub mod Abreast
pub mod Premising
pub mod Entering
pub mod Replayed
pub mod FaultLemmas
pub mod Determined
mod Kept
pub mod Replied
mod Answered
mod Planning
mod Runs
