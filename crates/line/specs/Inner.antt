-- What only the inner functions promise each other: no public contract cites these.
pub mod Along
pub mod Course
pub mod Fixed
pub mod Span
pub mod Step
