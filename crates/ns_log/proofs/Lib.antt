pub mod Written
pub mod Lines
pub mod Joined
mod Leading
pub mod LawLemmas
pub mod Marking
pub mod Seating
