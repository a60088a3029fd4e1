pub mod Code
pub mod Read
pub mod Refusal
pub mod Laws
pub mod ReadBack
