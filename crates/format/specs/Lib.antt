-- What the code's answers, refusals, warning counts and ticks mean. Assumes nothing.
pub mod Numbers
pub mod Totals
pub mod Sources
pub mod Answers
