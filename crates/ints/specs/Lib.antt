-- What the contracts of `ints` use besides the definitions. Assumes nothing.
pub mod Copies
pub mod Same
