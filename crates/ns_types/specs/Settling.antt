pub mod Outcome
pub mod Making
pub mod Gone
pub mod Same
pub mod Releases
pub mod Settle
