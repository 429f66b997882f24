-- Words of the code's own steps, which its private contracts use: nothing that a reader must believe rests on them.
pub mod Beginnings
pub mod Constants
pub mod Decided
pub mod EffectViews
pub mod Demanded
pub mod Happening
pub mod Rising
