-- Facts that the proofs of `format` share. Assumes nothing.
pub mod ItemDeltas
