pub mod Before
pub mod Differs
