pub mod Http
pub mod Member
pub mod Refused
pub mod Words
pub mod Responses
