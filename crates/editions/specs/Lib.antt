pub mod Alike
pub mod Pair
pub mod Raised
pub mod Written
