-- Words of the code's own steps, which its private contracts use: nothing that a reader must believe rests on them.
pub mod KnownRows
pub mod Counted
pub mod Holders
pub mod TypeRows
pub mod Stacks
pub mod Frames
pub mod Moves
pub mod EntryLocals
pub mod MapEntries
