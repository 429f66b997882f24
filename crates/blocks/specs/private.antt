-- Words of the code's own steps, which its private contracts use: nothing that a reader must believe rests on them.
pub mod Blocks
pub mod Trees
pub mod Arenas
pub mod Replacing
pub mod Pending
pub mod Remembering
pub mod Compacting
