-- The way a band is judged.
pub mod Way
