-- What the functions of `types` require, and what they promise. Assumes nothing.
pub mod Picks
pub mod Kinds
pub mod Answers
