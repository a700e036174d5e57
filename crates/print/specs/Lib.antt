pub mod Run
pub mod Text
