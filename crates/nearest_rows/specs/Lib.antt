pub mod Over
pub mod Laws
