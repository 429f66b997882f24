pub mod Expected
pub mod RunningFrame
pub mod Pushing
pub mod private
pub mod RuleNumbers
