pub mod Steps
mod DrawnTexts
