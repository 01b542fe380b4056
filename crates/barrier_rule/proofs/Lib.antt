pub mod Places
pub mod Matches
pub mod Steps
pub mod Exactly
