pub mod Answering
pub mod Held
pub mod Lacking
pub mod Viewed
pub mod Working
