pub mod Rows
pub mod Held
pub mod Shift
pub mod Turns
pub mod Pour
pub mod Back
pub mod Order
pub mod Read
