pub mod Endian
pub mod Opened
pub mod Placing
pub mod Round
pub mod Scanned
pub mod Taken
