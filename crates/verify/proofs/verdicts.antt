-- The meaning of verdicts: what a method that is verified, or refused, is; how the pass finds it; and what is returned
-- of it.
pub mod Passing
pub mod Following
pub mod Shown
pub mod Verdicts
pub mod Refusing
pub mod Refused
pub mod MapFaults
pub mod Breaks
pub mod Judged
pub mod Answering
pub mod OneVerdict
