pub mod Statuses
pub mod Laws
pub mod Sizes
pub mod Zeros
pub mod Fresh
pub mod Fitting
pub mod Computing
pub mod Made
