pub mod Guided
pub mod Fits
pub mod Named
pub mod Safe
pub mod Stepped
