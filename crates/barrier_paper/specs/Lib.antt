pub mod Limits
pub mod Document
pub mod Form
pub mod OfBarrier
pub mod OfSteps
pub mod Windows
pub mod Inverse
