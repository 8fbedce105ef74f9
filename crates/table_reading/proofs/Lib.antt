-- Facts that the proofs of `table_reading` share. Assumes nothing.
pub mod Picking
pub mod Endings
pub mod Sorted
pub mod Settling
pub mod Laying
pub mod Storing
pub mod Outcomes
