pub mod Edges
pub mod Graphs
pub mod Frameworks
pub mod Verdicts
pub mod Ways
pub mod Lawful
