pub mod Between
pub mod NodeByNode
pub mod Placements
pub mod SortedNames
pub mod Together
