-- Laws of a card's records.
pub mod Fields
pub mod Optional
pub mod Described
pub mod Ruled
pub mod Rows
