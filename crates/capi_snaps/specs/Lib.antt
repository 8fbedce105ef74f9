-- How types look from C. Assumes nothing.
pub mod Types
