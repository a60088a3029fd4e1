pub mod Ceiling
pub mod Laws
pub mod Run
pub mod Ladder
