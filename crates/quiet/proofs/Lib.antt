pub mod Due
pub mod Rows
pub mod Found
pub mod Ticks
pub mod Wakes
pub mod Asked
pub mod Called
