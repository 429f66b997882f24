pub mod Consumed
pub mod Extents
pub mod Fronts
pub mod Outlines
