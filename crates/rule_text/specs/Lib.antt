-- The line of the rule that prints, the arguments that ask for it, and examples. Assumes nothing.
pub mod Arguments
pub mod RuleLine
pub mod Cases
