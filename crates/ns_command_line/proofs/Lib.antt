mod Commands
mod Errors
mod Given
pub mod Serving
mod Wanting
