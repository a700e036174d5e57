mod Words
mod Rows
mod Table
mod Frames
mod Puts
mod Records
mod Fields
pub mod Written
mod Found
pub mod Told
pub mod Stands
pub mod Onward
mod Rowed
mod Same
pub mod Again
pub mod Empty
mod Ended
mod Between
mod Parts
pub mod Lost
mod Saving
mod Counting
pub mod Unique
pub mod Examples
pub mod Named
