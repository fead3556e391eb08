pub mod Adding
mod Attempts
mod Given
mod Logged
mod Planned
mod Reading
mod Rooms
mod WorkerSteps
