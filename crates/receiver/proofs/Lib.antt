-- Facts that the proofs of `receiver` share. Assumes nothing.
pub mod Parts
pub mod Forms
pub mod Opening
pub mod Calls
