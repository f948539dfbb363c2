pub mod Events
pub mod Accepted
pub mod Acceptance
pub mod Kinds
