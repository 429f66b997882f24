-- Words of the code's own steps, which its private contracts use: nothing that a reader must believe rests on them.
pub mod Readings
pub mod Entries
pub mod Deciding
pub mod ClassesAt
pub mod Places
pub mod RecentPlaces
pub mod SpelledTypes
