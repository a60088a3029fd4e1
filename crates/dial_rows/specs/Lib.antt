pub mod Apart
pub mod Class
pub mod Dials
pub mod Laws
pub mod Next
