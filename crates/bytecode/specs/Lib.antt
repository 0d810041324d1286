pub mod Instructions
pub mod Layout
pub mod Faults
pub mod Files
pub mod Cursor
pub mod Equality
