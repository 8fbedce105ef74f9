-- What the functions of `apply_judging` require, and what their answers mean. Assumes nothing.
pub mod Judging
