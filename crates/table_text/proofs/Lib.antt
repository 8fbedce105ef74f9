-- Lemmas of `table_text`'s proofs. Assumes nothing.
pub mod Texts
mod Readings
