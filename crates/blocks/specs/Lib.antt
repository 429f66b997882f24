pub mod Lanes
pub mod Rows
pub mod Judgements
pub mod private
