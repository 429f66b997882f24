-- Words of the pass over a method's code.
pub mod Alone
pub mod Buckets
pub mod Exceptions
pub mod Finding
pub mod Following
pub mod Maps
pub mod ClassTypes
pub mod Objects
pub mod Representatives
pub mod Watching
