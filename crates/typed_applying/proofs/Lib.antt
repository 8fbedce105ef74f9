-- Facts that the proofs of `typed_applying` share. Assumes nothing.
pub mod Applied
