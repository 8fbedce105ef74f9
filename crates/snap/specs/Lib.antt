-- What the answers of `snap` mean. Assumes nothing.
pub mod Answers
