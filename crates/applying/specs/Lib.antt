-- What the functions of `applying` require, and what their answers mean. Assumes nothing.
pub mod Answers
pub mod Merging
