-- What the answers of `delta_reading` mean, and what is known of the deleted keys during a walk over them. Assumes nothing.
pub mod Answers
