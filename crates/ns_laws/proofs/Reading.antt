-- What reads answer and show.
pub mod Documents
pub mod Requests
pub mod Shown
pub mod Steps
pub mod Use
