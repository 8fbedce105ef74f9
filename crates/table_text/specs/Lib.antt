-- Reading a packed table, the listing of it, and the example of it in docs/FORMAT.md. Assumes nothing.
pub mod Reading
pub mod Listing
pub mod Cases
