-- What the C functions return and write. Assumes nothing.
pub mod Boundary
pub mod Outcomes
pub mod Items
