pub mod Rule
pub mod Draw
pub mod Inner
