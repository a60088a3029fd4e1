pub mod Each
pub mod From
pub mod Laws
pub mod Pour
