pub mod Turns
pub mod Tick
