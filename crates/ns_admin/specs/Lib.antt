pub mod Asked
pub mod Calls
pub mod Laws
pub mod Recorded
pub mod Viewed
pub mod Straying
