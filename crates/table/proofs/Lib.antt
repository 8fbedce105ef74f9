-- Facts that the proofs of `table` share. Assumes nothing.
pub mod Nums
pub mod Places
pub mod OffsetLaws
pub mod KeyLaws
pub mod SumLaws
