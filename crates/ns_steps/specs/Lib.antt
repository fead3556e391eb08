pub mod Told
pub mod Served
pub mod Answers
pub mod Laws
pub mod Chains
pub mod Works
