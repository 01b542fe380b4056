pub mod Firsts
pub mod Reading
pub mod Conditions
pub mod Accepting
