-- Facts that the proofs of `store_area` share. Assumes nothing.
pub mod Places
pub mod Forms
pub mod Steps
pub mod Laying
