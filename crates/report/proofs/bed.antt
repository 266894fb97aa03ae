-- The laws of sludge beds.
pub mod Rows
pub mod Loss
