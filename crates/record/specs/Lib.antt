pub mod File
pub mod Inner
pub mod Layout
pub mod Reading
pub mod Writing
pub mod Again
pub mod Rescue
pub mod Lost
