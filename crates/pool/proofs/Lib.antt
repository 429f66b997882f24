pub mod Loop
pub mod Writes
pub mod LookupLaws
pub mod RefusedLookups
