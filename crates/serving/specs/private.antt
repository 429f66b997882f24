-- Words of the code's own steps, which its private contracts use: nothing that a reader must believe rests on them.
pub mod Taking
pub mod Replying
pub mod Stepping
pub mod Serving
