pub mod Once
pub mod Room
pub mod Useless
