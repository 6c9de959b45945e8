pub mod Tickets
pub mod Told
pub mod Found
pub mod Going
