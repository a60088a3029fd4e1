pub mod Tidy
pub mod Laws
