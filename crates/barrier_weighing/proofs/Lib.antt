pub mod Lists
pub mod Reading
pub mod Gaps
pub mod Matched
pub mod Steps
pub mod Going
