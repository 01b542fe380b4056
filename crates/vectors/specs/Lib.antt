pub mod Agreement
pub mod Hex
pub mod Outcomes
pub mod Table
