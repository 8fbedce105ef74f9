-- Lemmas of the logbook. Assumes nothing.
pub mod Lists
pub mod Notes
