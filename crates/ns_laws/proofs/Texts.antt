-- Names, ids, limits and words.
pub mod Ids
pub mod Limiting
pub mod Naming
pub mod Ordering
pub mod Orders
pub mod Wording
