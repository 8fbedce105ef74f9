-- Facts that the proofs of `delta_source` share. Assumes nothing.
pub mod Nexts
pub mod Skipping
pub mod Reading
pub mod Judging
pub mod Heading
