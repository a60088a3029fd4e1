pub mod Before
pub mod Equal
