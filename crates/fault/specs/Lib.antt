pub mod Fault
pub mod Number
pub mod Laws
