-- What the functions of `builder` promise. Assumes nothing.
pub mod Building
