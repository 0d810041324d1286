pub mod Opened
pub mod Picks
pub mod Tokens
