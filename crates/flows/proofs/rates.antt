-- Laws of the rates in force.
pub mod Rows
pub mod Correction
pub mod InForce
