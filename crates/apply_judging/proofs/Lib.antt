-- What the proofs of `apply_judging` share. Assumes nothing.
pub mod Places
pub mod Judgements
pub mod Turns
