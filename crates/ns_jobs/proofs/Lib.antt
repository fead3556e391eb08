pub mod Asked
pub mod Listed
pub mod Past
pub mod Prepared
pub mod Releasing
pub mod ReportAsked
pub mod ReportPast
pub mod Written
