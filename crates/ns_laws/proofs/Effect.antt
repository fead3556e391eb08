-- What each request does to the rows.
pub mod Admins
pub mod Asks
pub mod Documents
pub mod Evaluations
pub mod Nodes
pub mod Reports
pub mod Rows
pub mod Versions
