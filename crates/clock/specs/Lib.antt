pub mod Lines
pub mod Names
pub mod Proposals
pub mod Spans
pub mod Sums
pub mod Tasks
