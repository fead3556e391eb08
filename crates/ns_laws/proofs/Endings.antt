-- How an allocation comes, changes and ends.
pub mod Apply
pub mod Change
pub mod Evaluations
pub mod Evictions
pub mod Laws
pub mod Rows
pub mod Steps
pub mod Victims
