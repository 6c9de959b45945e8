pub mod Control
pub mod Found
