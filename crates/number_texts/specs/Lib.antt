pub mod Text
pub mod Laws
pub mod Whole
pub mod Examples
