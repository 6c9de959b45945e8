pub mod Calling
pub mod Firsts
pub mod Running
pub mod Telling
pub mod Used
