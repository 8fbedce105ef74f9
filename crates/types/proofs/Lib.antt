-- Facts that the proofs of `types` share. Assumes nothing.
pub mod Places
pub mod Leading
pub mod Sorting
pub mod Classes
pub mod Lacking
pub mod Walking
pub mod Naming
pub mod Judging
pub mod InForm
pub mod Ordinals
