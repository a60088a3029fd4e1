pub mod Total
pub mod Greater
