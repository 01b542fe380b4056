pub mod Words
pub mod Kinds
pub mod Placed
pub mod Left
pub mod Faults
pub mod Shown
pub mod Inverse
