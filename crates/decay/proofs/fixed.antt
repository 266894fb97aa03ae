-- Laws of fixed-point numbers.
pub mod Digits
