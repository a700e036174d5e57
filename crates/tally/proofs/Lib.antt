pub mod Inked
pub mod Rows
pub mod Painted
pub mod Tests
pub mod Kept
pub mod Beside
pub mod Every
pub mod Empty
