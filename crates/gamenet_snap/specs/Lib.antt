-- What the code's messages mean. Assumes nothing.
pub mod Numbers
