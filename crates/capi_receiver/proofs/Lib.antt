-- What the outputs hold, given a known call. Assumes nothing.
pub mod Calls
