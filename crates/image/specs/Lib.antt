pub mod Check
pub mod Short
pub mod Laws
