-- The deleted keys and the updates of a delta as pairs of a rank and a place, and what follows from them once sorted.
pub mod Entries
pub mod Steps
pub mod Walks
pub mod DeletedLaws
pub mod Placing
pub mod UpdateLaws
pub mod CrossingLaws
pub mod EntryLaws
pub mod RepeatLaws
pub mod RangeLaws
pub mod RoundLaws
pub mod OneKey
pub mod OneKeyLaws
