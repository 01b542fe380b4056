pub mod Firsts
pub mod LeftOut
pub mod Ranges
pub mod Sweeps
