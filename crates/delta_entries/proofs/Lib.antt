-- Lemmas that the proofs of several functions cite. Assumes nothing.
pub mod Adding
pub mod KeyScan
pub mod UpdateScan
pub mod Wholes
pub mod OneRank
pub mod RangeTells
pub mod Tallying
pub mod Standing
pub mod Emitting
pub mod EmitRounds
