-- Laws of the demands of a reach.
pub mod Ranges
