-- The rows of statuses.
pub mod Rows
