pub mod Listed
pub mod Losing
pub mod Registering
