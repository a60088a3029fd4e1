pub mod Bytes
pub mod Layout
pub mod Form
pub mod Laws
