-- Facts that the proofs of `storage` share. Assumes nothing.
pub mod Forms
pub mod Bases
pub mod Additions
pub mod Calls
pub mod Deltas
pub mod Takes
