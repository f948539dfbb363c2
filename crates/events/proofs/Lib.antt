pub mod Laws
pub mod Acceptance
pub mod Sets
pub mod Computing
pub mod KindNumbers
