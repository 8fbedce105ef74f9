-- What the proofs of `applying` share. Assumes nothing.
pub mod Putting
pub mod Turns
pub mod Whole
pub mod Answers
