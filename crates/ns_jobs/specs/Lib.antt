pub mod Counted
pub mod Ending
pub mod Made
pub mod Read
pub mod Reporting
