-- Laws of the reader.
pub mod Reaches
