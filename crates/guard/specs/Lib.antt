pub mod Regions
pub mod Refusals
pub mod Reasons
pub mod Meaning
pub mod Driven
pub mod Bounded
pub mod Decision
