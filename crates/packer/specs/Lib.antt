-- What the answers of `packer` mean. Assumes nothing.
pub mod Answers
pub mod Bytes
pub mod Scans
pub mod ReaderAnswers
