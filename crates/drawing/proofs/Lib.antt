pub mod Boundary
pub mod Examples
pub mod Figures
pub mod InMetres
pub mod Nothing
pub mod Pitch
mod Records
pub mod Replies
pub mod Starred
