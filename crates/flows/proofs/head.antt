-- Laws of the head of a reach.
pub mod SaturationRows
pub mod Bounds
pub mod Offset
pub mod Stored
pub mod Units
pub mod Heads
pub mod Bringing
