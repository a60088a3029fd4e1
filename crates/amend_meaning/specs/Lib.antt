pub mod Meaning
pub mod Same
