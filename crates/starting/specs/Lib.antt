pub mod Starting
pub mod LeftOut
