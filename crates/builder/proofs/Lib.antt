-- Facts that the proofs of `builder` share. Assumes nothing.
pub mod Counting
pub mod Adding
pub mod Refusing
