pub mod Words
pub mod Ranges
pub mod Left
pub mod Theorem
pub mod Tidy
pub mod Example
