mod Rows
mod Turns
mod Rounds
