-- What the answers of `typed_applying` mean. Assumes nothing.
pub mod Answers
