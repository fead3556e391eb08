-- Why each request is refused.
pub mod Reasons
pub mod Registration
pub mod Tests
