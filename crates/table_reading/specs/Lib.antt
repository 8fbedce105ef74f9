-- What the answers of `table_reading` mean, what its functions require, and how warnings count. Assumes nothing.
pub mod Reading
pub mod Counted
