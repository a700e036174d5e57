mod Again
mod Answers
mod Bits
mod Decimals
pub mod Empty
mod Finding
mod Grammar
mod Raster
pub mod Shown
mod Standing
