pub mod Plain
pub mod Laws
pub mod Quick
pub mod Home
