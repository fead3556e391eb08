-- What is a namespace's own, and what a step leaves beside it.
pub mod Asks
pub mod OwnSteps
pub mod Reach
pub mod Sharing
pub mod Unshared
