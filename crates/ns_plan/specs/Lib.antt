pub mod After
pub mod Looks
pub mod Reader
pub mod Gathered
pub mod Loads
pub mod Laws
