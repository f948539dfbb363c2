pub mod Laws
pub mod Meaning
pub mod Keeps
pub mod Computing
