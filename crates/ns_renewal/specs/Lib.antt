pub mod Counted
pub mod Laws
pub mod Losing
pub mod Losses
pub mod Renewing
