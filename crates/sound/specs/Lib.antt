pub mod Describes
pub mod Meaning
pub mod LiveMeaning
