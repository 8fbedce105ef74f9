-- What the store of the code and its answers mean. Assumes nothing.
pub mod States
pub mod Answers
pub mod Steps
pub mod Taking
pub mod Settled
