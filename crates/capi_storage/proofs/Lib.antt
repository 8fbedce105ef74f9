-- What C sees, given a known call. Assumes nothing.
pub mod Calls
