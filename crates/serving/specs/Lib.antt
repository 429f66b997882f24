pub mod Messages
pub mod Lines
pub mod KnownClasses
pub mod Steps
pub mod Conversations
pub mod private
