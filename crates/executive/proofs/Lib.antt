pub mod Taken
pub mod Replaying
