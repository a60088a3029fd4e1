pub mod Census
pub mod Lifted
pub mod Signed
pub mod Coded
pub mod Counts
pub mod Front
pub mod Same
