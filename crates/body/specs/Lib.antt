pub mod Body
pub mod Steps
pub mod Meaning
