pub mod Laws
pub mod Clash
pub mod Written
