pub mod Replay
pub mod Abreast
pub mod Laws
pub mod Replying
pub mod Rerunning
pub mod Making
pub mod Planned
pub mod Running
