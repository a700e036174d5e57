mod Answered
mod Digits
pub mod Examples
mod InTurn
mod Lines
mod Told
mod Writing
