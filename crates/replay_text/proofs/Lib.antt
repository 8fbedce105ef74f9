-- Facts that the proofs of `replay_text` share. Assumes nothing.
pub mod WordLaws
pub mod BufferLaws
pub mod NumberLaws
