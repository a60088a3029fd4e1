pub mod Figure
