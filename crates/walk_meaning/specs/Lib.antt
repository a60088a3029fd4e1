pub mod Sound
pub mod Prefix
pub mod Walks
