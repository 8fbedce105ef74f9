-- What the functions of `table` require, and what the answer of the form test means. Assumes nothing.
pub mod Held
pub mod Offsets
pub mod Keys
pub mod Forms
pub mod Writing
pub mod Searching
pub mod Finding
