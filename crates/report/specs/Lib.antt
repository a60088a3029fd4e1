pub mod Gaps
pub mod Report
pub mod Left
pub mod Turns
pub mod Few
pub mod Answer
