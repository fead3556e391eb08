pub mod Lacking
pub mod Logs
pub mod Noting
pub mod Planned
pub mod Rendered
pub mod Rotation
