pub mod Parting
pub mod ReadFiles
pub mod Telling
