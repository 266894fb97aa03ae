-- Laws of reading a record.
pub mod Steps
pub mod Places
pub mod Records
