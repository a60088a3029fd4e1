pub mod Number
pub mod Decision
pub mod Reason
