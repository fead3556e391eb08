pub mod Counting
pub mod Least
pub mod Made
pub mod MadeUp
pub mod Numbered
pub mod Repeated
pub mod Stopped
