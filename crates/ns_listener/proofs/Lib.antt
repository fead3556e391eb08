mod Crossing
mod Ends
mod Requests
mod Written
pub mod Gaining
mod Closings
