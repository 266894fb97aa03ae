-- Laws of the profile of a reach.
pub mod Offset
pub mod Oxygen
pub mod Steps
