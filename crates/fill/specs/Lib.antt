pub mod Territory
pub mod Fill
pub mod Crossing
pub mod Inner
