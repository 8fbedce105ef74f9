-- What the answers of `delta_chunks` mean. Assumes nothing.
pub mod Answers
