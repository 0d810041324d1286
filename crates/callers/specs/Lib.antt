pub mod Steps
pub mod Traces
