pub mod Urgent
