pub mod Chained
pub mod Alike
pub mod Tables
pub mod Verdicts
pub mod Clashes
