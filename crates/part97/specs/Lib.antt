pub mod Part97
pub mod Laws
pub mod Finding
