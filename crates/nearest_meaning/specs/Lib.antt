-- `Words` has the words, `Theorem` what is proved of the answer; the others are its steps.
pub mod Words
pub mod Answers
pub mod Order
pub mod Fold
pub mod Off
pub mod Rows
pub mod Tuned
pub mod Listed
pub mod Theorem
pub mod Examples
