-- Facts that the proofs of `delta_form` share. Assumes nothing.
pub mod Sizes
pub mod Turns
pub mod Ranks
pub mod Laying
