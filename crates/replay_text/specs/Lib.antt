-- The text of replayed cases. Assumes nothing.
pub mod Words
pub mod Buffer
pub mod Numbers
pub mod Answers
pub mod Lines
