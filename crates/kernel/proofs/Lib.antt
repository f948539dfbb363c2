pub mod Ticks
pub mod Verdict
pub mod Ready
pub mod Computing
