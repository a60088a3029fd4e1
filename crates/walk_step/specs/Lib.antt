pub mod Step
pub mod Laws
