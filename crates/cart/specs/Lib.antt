pub mod BrakingDistance
pub mod States
pub mod Meaning
pub mod Making
pub mod Laws
pub mod BrakingDistanceLemmas
pub mod StatesLemmas
