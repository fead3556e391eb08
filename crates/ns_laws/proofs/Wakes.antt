-- Which blocked evaluations wake, and why.
pub mod Followers
pub mod Numbering
pub mod Queue
pub mod Reasons
pub mod Steps
pub mod Waking
