pub mod Faults
pub mod Judgement
pub mod Exact
