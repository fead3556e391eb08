-- What becomes of an evaluation, from list to list.
pub mod Closing
pub mod Finish
pub mod Keeping
pub mod Laws
pub mod Lists
pub mod Rows
pub mod Steps
pub mod Worlds
