pub mod AnswerLaws
pub mod ClassNameLaws
pub mod FieldReader
pub mod FieldSeen
pub mod Lanes
pub mod MethodReader
pub mod NamesOfUnits
pub mod Readers
pub mod RunLaws
pub mod TypeEndLaws
pub mod UnitLaws
pub mod Scan
pub mod Written
pub mod Steps
pub mod Judged
pub mod Kept
pub mod Returned
pub mod NameScan
mod PlainNames
mod SingleUnits
pub mod JoinedLanes
pub mod JoinedNames
pub mod ShapeLaws
pub mod ShapeSeen
pub mod ParameterLaws
