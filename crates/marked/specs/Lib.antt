pub mod Marked
pub mod Theorems
