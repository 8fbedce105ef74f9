-- The deleted keys and the updates of a source, and the counts of them. Assumes nothing.
pub mod Told
pub mod Scans
pub mod Ranges
