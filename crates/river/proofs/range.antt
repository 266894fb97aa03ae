-- Laws of the tests that reading and writing share.
pub mod Ranges
