pub mod Faults
pub mod OfCases
pub mod OfMatches
pub mod Weighed
