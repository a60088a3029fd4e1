pub mod Same
pub mod Words
pub mod Theorem
pub mod Example
