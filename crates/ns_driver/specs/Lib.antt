pub mod Attempting
pub mod Calls
pub mod WorkerSteps
pub mod Driving
pub mod Working
pub mod Kept
