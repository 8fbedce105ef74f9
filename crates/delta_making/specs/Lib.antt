-- What the answers of `delta_making` mean, and what its internal functions promise. Assumes nothing.
pub mod Answers
pub mod Parts
