pub mod Adding
pub mod Filling
pub mod OfValve
pub mod Tabling
