pub mod Bounded
pub mod Looking
pub mod Nacking
pub mod Serving
pub mod Snapping
pub mod Submitting
pub mod Seen
