pub mod Held
pub mod Rolling
pub mod Made
pub mod Housed
