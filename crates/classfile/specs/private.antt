-- Words of the code's own steps, which its private contracts use: nothing that a reader must believe rests on them.
pub mod AttributeInfos
pub mod AttributeKinds
pub mod DuplicateFinder
pub mod IndexColumns
pub mod MemberTexts
pub mod MetRows
pub mod NamedAt
pub mod NumbersLaws
pub mod Pieces
pub mod Searching
pub mod TableBodies
pub mod TextForms
pub mod Told
