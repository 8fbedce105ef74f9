-- What the proofs of `delta_making` share. Assumes nothing.
pub mod Places
pub mod Updates
pub mod Parts
pub mod Creations
