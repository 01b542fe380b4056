pub mod Lines
pub mod Steps
pub mod Separator
pub mod Tests
pub mod Theorems
