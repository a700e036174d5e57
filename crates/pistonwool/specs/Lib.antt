pub mod Inner
pub mod Told
