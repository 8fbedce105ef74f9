-- What the answers of `rules` mean, and what its search promises. Assumes nothing.
pub mod Answers
pub mod Searching
