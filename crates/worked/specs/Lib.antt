pub mod Papers
pub mod Cases
