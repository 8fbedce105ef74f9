-- Facts that the proofs of `manager` share. Assumes nothing.
pub mod ReceiverKinds
pub mod ReadSound
pub mod ReadStored
pub mod Additions
pub mod Messages
