pub mod Image
pub mod Write
pub mod Laws
