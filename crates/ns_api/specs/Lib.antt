pub mod Rooms
pub mod Lacking
pub mod Following
pub mod Answering
pub mod Serving
pub mod Cores
