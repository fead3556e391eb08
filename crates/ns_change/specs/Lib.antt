pub mod Changed
pub mod Opened
pub mod Prepared
pub mod Queued
pub mod Settled
pub mod Waiting
