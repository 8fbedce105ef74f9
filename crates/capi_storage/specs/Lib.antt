-- How the answers of a store look from C. Assumes nothing.
pub mod Told
