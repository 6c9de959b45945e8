pub mod Regions
pub mod Bounded
pub mod Decision
pub mod Exactness
