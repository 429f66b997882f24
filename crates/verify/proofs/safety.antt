-- Why type-safe methods are safe: worlds, states that fit frames, one family of instructions after the other,
-- beginnings, steps and runs.
pub mod Worlds
pub mod Fits
pub mod Agree
pub mod Plain
pub mod Locals
pub mod Forms
pub mod News
pub mod References
pub mod Steps
pub mod Start
pub mod Run
pub mod OneMethod
pub mod ClassCalls
pub mod ClassMoments
pub mod ClassReturns
pub mod ClassEnters
pub mod ClassMethods
pub mod ClassRuns
pub mod ClassRunBreadth
pub mod HeapRuns
pub mod HeapPlaces
pub mod HeapAccesses
pub mod HeapRunBreadth
pub mod PlayableMethods
pub mod FitsBreadth
pub mod NewMaps
