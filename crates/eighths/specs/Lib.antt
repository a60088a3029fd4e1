-- The grid of eighths: `Grid` has the definitions, `Steps` the arithmetic that the proofs share, `Laws` what other crates cite.
pub mod Grid
pub mod Steps
pub mod Laws
