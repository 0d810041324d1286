pub mod Words
pub mod Frames
pub mod Loops
pub mod Files
pub mod Held
pub mod Units
pub mod Writes
