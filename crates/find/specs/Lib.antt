pub mod Question
pub mod Home
