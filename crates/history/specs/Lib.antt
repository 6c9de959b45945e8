pub mod Refusals
pub mod History
pub mod Due
pub mod Findings
pub mod Outcome
pub mod Use
