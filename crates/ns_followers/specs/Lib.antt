pub mod Ending
pub mod Finishing
pub mod Following
pub mod Missing
pub mod Places
pub mod Remembered
