pub mod Choices
pub mod Laws
pub mod Rules
pub mod Weights
