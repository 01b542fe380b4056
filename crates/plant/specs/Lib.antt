pub mod Limits
pub mod Net
pub mod Ring
pub mod Bounds
pub mod Walk
pub mod Firings
pub mod Starting
pub mod Totals
