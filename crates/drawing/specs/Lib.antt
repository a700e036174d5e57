pub mod Boundary
pub mod Figure
pub mod File
pub mod Metres
pub mod Starred
