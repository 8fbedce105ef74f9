-- Reading by place from packed bytes or from ints. Assumes nothing.
pub mod Source
pub mod Steps
pub mod SourcePlaces
pub mod SourceLaws
pub mod SourceBounds
