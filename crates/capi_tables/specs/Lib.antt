-- How the items of a table look from C. Assumes nothing.
pub mod Items
