-- Lemmas of `rule_text`'s proofs. Assumes nothing.
mod Lines
mod Digits
