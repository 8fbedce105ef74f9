-- How messages and the receiver's answers look from C. Assumes nothing.
pub mod Held
pub mod Left
pub mod Places
