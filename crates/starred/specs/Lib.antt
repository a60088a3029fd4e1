pub mod Practice
pub mod Starred
