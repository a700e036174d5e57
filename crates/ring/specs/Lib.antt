pub mod Ring
pub mod Circle
pub mod Draw
pub mod Holes
pub mod Inner
