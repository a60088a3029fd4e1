pub mod Within
pub mod Laws
