pub mod Best
pub mod Prefix
pub mod Ranks
pub mod Sums
pub mod Walk
mod Marks
mod Rising
