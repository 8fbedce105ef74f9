-- Facts that the proofs of `raw_snap` share. Assumes nothing.
pub mod Calls
pub mod Counted
pub mod Unpacking
