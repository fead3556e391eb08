-- Secrets, their rights, policies and tokens.
pub mod Lists
pub mod Secrets
pub mod Tokens
