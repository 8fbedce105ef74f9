-- What the code's receiver and its answers mean. Assumes nothing.
pub mod States
pub mod Answers
pub mod Moves
pub mod Settled
