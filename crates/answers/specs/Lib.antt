pub mod Answers
pub mod Decides
