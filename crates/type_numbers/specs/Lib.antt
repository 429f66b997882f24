pub mod Numbers
pub mod Decoding
pub mod NumberLaws
pub mod MethodNumbers
pub mod Constants
pub mod private
