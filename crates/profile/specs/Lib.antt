pub mod Range
pub mod Limit
