-- What ticks and distances in the code mean. Assumes nothing.
pub mod Ticks
