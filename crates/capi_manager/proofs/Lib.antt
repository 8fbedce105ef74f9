-- What C sees, given a message with a known step. Assumes nothing.
pub mod Calls
