-- How a node is chosen, and what is evicted there.
pub mod Choice
pub mod Levels
pub mod Placement
