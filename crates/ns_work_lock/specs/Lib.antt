pub mod Copying
pub mod Ending
pub mod Looking
pub mod Moments
pub mod Receiving
pub mod Settling
pub mod Spending
