pub mod Header
pub mod Inner
pub mod Page
pub mod Picture
pub mod Reading
pub mod Shown
