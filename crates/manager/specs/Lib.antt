-- What the manager's answers and steps mean. Assumes nothing.
pub mod Answers
pub mod Steps
