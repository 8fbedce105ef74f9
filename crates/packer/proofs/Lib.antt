-- Facts that the proofs of `packer` share. Assumes nothing.
pub mod Steps
pub mod Calls
pub mod Writes
pub mod Answers
pub mod Scanning
pub mod Pretest
pub mod Packing
pub mod PlaceLaws
