-- Facts that the proofs of `delta` share. Assumes nothing.
pub mod Calls
pub mod ReadCalls
