pub mod Zero
pub mod Theorems
