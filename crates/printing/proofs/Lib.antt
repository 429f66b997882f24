pub mod FirstColumn
pub mod Steps
pub mod Writings
pub mod Frames
pub mod Fields
pub mod RunLaws
pub mod OffsetTexts
