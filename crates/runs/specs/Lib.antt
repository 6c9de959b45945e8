pub mod Asking
pub mod Courses
pub mod Deeds
pub mod Dues
pub mod Law
pub mod Ran
pub mod Refusals
