-- What the answers of `raw_snap` mean, and the result of applying a delta. Assumes nothing.
pub mod Answers
pub mod Applied
pub mod Unpacking
