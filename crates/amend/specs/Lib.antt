pub mod Amend
pub mod Laws
pub mod Copies
pub mod Put
