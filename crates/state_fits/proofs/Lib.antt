pub mod Tasks
pub mod From
