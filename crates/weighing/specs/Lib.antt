pub mod Faults
pub mod Shown
pub mod Question
pub mod Judgement
pub mod Weighing
pub mod Refused
pub mod Accepted
