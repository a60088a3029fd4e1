pub mod Rungs
pub mod Laws
