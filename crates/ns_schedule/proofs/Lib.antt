pub mod Among
pub mod Counts
pub mod Kept
pub mod Levels
pub mod Orders
pub mod Placings
pub mod Plans
mod Stays
pub mod Steps
pub mod Victims
pub mod Wants
