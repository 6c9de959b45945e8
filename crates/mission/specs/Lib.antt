pub mod Faults
pub mod Kinds
pub mod Machines
pub mod Options
pub mod Sources
pub mod Words
