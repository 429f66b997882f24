pub mod NumberedRows
pub mod NumberedStacks
pub mod NumberedFrames
pub mod MapFrames
pub mod Objects
pub mod ObjectLaws
pub mod private
