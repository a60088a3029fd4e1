pub mod Amended
pub mod Latest
pub mod Effective
