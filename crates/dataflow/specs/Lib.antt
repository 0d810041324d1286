pub mod Analysis
pub mod Takes
pub mod Faults
pub mod Pending
pub mod FirstIn
pub mod Highest
pub mod Mask
