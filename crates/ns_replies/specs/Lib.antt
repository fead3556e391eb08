pub mod Events
pub mod Rendered
pub mod Tokens
pub mod Bodies
pub mod Rooms
pub mod Laws
