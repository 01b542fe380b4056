pub mod Limits
pub mod Tables
pub mod OfLine
pub mod OfValve
pub mod OfWay
