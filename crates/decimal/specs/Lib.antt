pub mod Decimal
pub mod Within
pub mod Laws
