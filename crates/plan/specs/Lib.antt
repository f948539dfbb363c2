pub mod File
pub mod Rules
pub mod Accepted
pub mod Order
pub mod Acceptance
pub mod Kinds
