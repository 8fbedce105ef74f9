-- Facts that the proofs of `delta_writing` share. Assumes nothing.
pub mod Matching
pub mod Writing
pub mod Whole
