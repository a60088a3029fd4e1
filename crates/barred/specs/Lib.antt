-- Whether a finding blocks.
pub mod Barred
pub mod Barring
pub mod Coded
