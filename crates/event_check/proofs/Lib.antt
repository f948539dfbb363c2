pub mod Laws
pub mod Targets
