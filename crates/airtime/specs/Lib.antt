pub mod Airtime
pub mod Sum
pub mod Laws
pub mod Examples
