pub mod Least
pub mod Reach
pub mod Nearest
pub mod Columns
pub mod Offsets
pub mod Eighths
pub mod Intervals
pub mod Stairs
pub mod Downward
pub mod Quadrants
pub mod Descent
pub mod Chained
pub mod Holes
mod Outside
mod Fronts
mod Tested
mod Lying
mod Rowed
mod Seen
mod Breadth
mod Half
mod Answers
