pub mod Group
pub mod Table
pub mod Laws
