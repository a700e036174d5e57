pub mod Order
pub mod Search
pub mod Cells
mod Lengths
pub mod Within
pub mod Origin
pub mod Unique
pub mod Examples
