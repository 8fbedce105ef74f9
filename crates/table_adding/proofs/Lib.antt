-- Facts that the proofs of `table_adding` share. Assumes nothing.
pub mod Turns
pub mod Inserting
pub mod Parts
pub mod Cuts
pub mod Items
pub mod Additions
