pub mod FileReads
pub mod private
