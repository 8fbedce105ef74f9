-- What the logbook of the code holds. Assumes nothing.
pub mod States
