pub mod Strength
pub mod Once
pub mod Useless
