pub mod Cell
pub mod Metres
pub mod Inner
