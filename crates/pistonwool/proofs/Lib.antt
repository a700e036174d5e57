pub mod Boundary
pub mod Command
mod Files
mod Forms
pub mod Pens
mod Pictured
mod Listed
mod Told
pub mod Unique
