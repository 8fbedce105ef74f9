-- Facts that the proofs of `delta_reading` share. Assumes nothing.
pub mod Turns
pub mod Whole
pub mod Counting
pub mod Reading
