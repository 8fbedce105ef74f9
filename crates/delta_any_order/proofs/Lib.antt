-- Facts that the proofs of `delta_any_order` share. Assumes nothing.
pub mod Ends
pub mod Storing
pub mod Fronting
pub mod Whole
pub mod Weighing
