-- Facts that the proofs of `snap` share. Assumes nothing.
pub mod Naming
pub mod Counted
pub mod Placing
pub mod Calls
pub mod Applied
