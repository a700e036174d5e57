pub mod Asking
pub mod Demand
pub mod Distance
pub mod Draw
pub mod Inner
pub mod Listing
pub mod Pen
pub mod Rule
