-- The rules of form that are judged of a class which is read as a release has it, beside those of every class: of
-- constants, attributes, members and the class, and which of them is told of a place.
pub mod Attributes
pub mod ClassRules
pub mod Constants
pub mod DebugTables
pub mod MemberRules
pub mod Places
pub mod Twice
pub mod Views
