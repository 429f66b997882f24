-- Words of the code's own steps, which its private contracts use: nothing that a reader must believe rests on them.
pub mod Above
pub mod Ancestry
pub mod FinalMethods
pub mod Flags
pub mod Inheritance
pub mod MemberNumbers
pub mod NumberedMembers
pub mod SameSummaries
pub mod Sketches
pub mod Skips
pub mod Summarising
pub mod TextNumbers
pub mod Versions
