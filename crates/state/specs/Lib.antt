pub mod State
pub mod Fits
pub mod Fitting
pub mod Steps
pub mod Numbers
