-- The evaluations that a step adds.
pub mod Apply
pub mod Laws
pub mod Lists
pub mod Steps
