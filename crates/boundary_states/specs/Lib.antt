-- How a receiver and a store look from C. Assumes nothing.
pub mod Rows
pub mod Holding
pub mod Few
pub mod Emptied
