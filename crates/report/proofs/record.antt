-- Laws of a record.
pub mod Bytes
pub mod Encoding
pub mod Nitrified
pub mod Rows
