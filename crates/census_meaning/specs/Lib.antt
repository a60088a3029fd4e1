-- What the counts of a census mean.
pub mod Total
pub mod Split
pub mod Whole
pub mod Verdicts
