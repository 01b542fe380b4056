pub mod Laws
pub mod Placing
pub mod Fields
pub mod Options
pub mod Inverses
