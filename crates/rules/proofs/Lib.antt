-- Lemmas of `rules`' proofs. Assumes nothing.
mod Bests
mod Turns
