pub mod Places
pub mod Clash
