-- Facts that the proofs of `ints` share. Assumes nothing.
pub mod Nums
pub mod Laid
