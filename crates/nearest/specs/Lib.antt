pub mod Nearest
pub mod Laws
