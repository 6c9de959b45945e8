pub mod HallSize
pub mod States
pub mod Meaning
pub mod Making
pub mod Laws
pub mod StatesLemmas
