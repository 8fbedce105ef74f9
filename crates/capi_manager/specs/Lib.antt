-- How the answers of a manager look from C. Assumes nothing.
pub mod Told
