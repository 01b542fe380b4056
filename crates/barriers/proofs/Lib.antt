pub mod Integers
pub mod Sides
pub mod Matches
pub mod Scaling
pub mod Separates
pub mod Decided
