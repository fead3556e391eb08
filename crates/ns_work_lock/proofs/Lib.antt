pub mod Adding
pub mod Entries
pub mod Planners
pub mod Refusing
pub mod SettledAlike
pub mod WorkerSteps
pub mod Crossing
