-- Facts that the proofs of `delta_chunks` share. Assumes nothing.
pub mod Cuts
