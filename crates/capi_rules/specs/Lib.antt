-- How the winner looks from C. Assumes nothing.
pub mod Winners
