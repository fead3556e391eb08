pub mod Constraint
pub mod Choice
pub mod Placement
pub mod Preemption
pub mod Wanted
pub mod Planning
pub mod Plan
