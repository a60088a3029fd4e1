pub mod Entry
pub mod Laws
