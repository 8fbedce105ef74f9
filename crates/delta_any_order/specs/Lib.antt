-- What reading a delta by place returns. Assumes nothing.
pub mod Counted
pub mod KeyLaws
pub mod ReadLaws
pub mod Fronts
pub mod OrderLaws
