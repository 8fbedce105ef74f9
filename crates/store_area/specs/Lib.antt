-- What the functions of `store_area` require and promise. Assumes nothing.
pub mod Held
pub mod Laid
pub mod Tested
pub mod Stores
