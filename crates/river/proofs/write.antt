-- Laws of writing.
pub mod Passes
pub mod Writing
