-- What the functions of `delta_form` require, and what the answer of the form test means. Assumes nothing.
pub mod Held
pub mod Forms
pub mod Reached
