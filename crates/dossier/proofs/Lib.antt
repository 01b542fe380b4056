pub mod Turns
pub mod Judged
pub mod Counting
pub mod Cutting
pub mod Writing
pub mod Dossiers
pub mod Showing
