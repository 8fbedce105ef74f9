-- What the functions of `table_adding` require and do. Assumes nothing.
pub mod Adding
