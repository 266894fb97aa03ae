-- Laws of numbers as bytes.
pub mod Numbers
pub mod Puts
